-- What holds of every layout of pictures in memories.
use Rattle.std.specs.Prelude.{◌≡◌, ℕ, ◌≤◌, Bool, false, ◌&&◌, List, length, ℤ, ◌==◌, nat_eq}
use Rattle.surface.specs.Meaning.{Meaning, Sound, frame, inside, drawn}

-- the sides of a picture: each at most 4,096, and none is 0 alone
pub record Sides (w h : ℕ) : Type 0 where
  pub wide : w ≤ 4096
  pub high : h ≤ 4096
  pub both : nat_eq w 0 ≡ (h == 0)

-- Of a layout by the bytes that a picture of a size needs, what a memory shows, its units that are no cell's, and what a draw does to it.
pub record Lawful (depth : ℕ) (needed : ℕ → ℕ → ℕ) (shows : ℕ → ℕ → List ℕ → Meaning) (spare : ℕ → ℕ → List ℕ → ℕ → ℕ) (Redraws : ℕ → ℕ → List ℕ → (ℤ → ℤ → Bool) → ℕ → List ℕ → Type 0) : Type 0 where
  -- no cells need no bytes
  pub empty : needed 0 0 ≡ 0
  -- where the memory has them all, each cell of the size is open
  pub framed : (w h : ℕ) (m : List ℕ) → needed w h ≤ length m → frame (shows w h m) ≡ record { width = w; height = h; depth = depth; opens = inside w h }
  pub sound : (w h : ℕ) (m : List ℕ) → Sides w h → Sound (shows w h m)
  -- a draw keeps the length, gives the drawn picture, and spares what is no cell's
  pub long : (w h : ℕ) (m n : List ℕ) (region : ℤ → ℤ → Bool) (v : ℕ) → Redraws w h m region v n → length n ≡ length m
  pub drawn : (w h : ℕ) (m n : List ℕ) (region : ℤ → ℤ → Bool) (v : ℕ) → Redraws w h m region v n → shows w h n ≡ drawn region (λ _ _. v) (shows w h m)
  pub spared : (w h : ℕ) (m n : List ℕ) (region : ℤ → ℤ → Bool) (v : ℕ) → Redraws w h m region v n → spare w h n ≡ spare w h m
  -- a draw of no cell does nothing, and only the open cells of a region count
  pub none : (w h : ℕ) (m : List ℕ) (v : ℕ) → Redraws w h m (λ _ _. false) v m
  pub alike : (w h : ℕ) (m n : List ℕ) (r s : ℤ → ℤ → Bool) (v : ℕ) → ((x y : ℤ) → (r x y && (shows w h m).opens x y) ≡ (s x y && (shows w h m).opens x y)) → Redraws w h m r v n → Redraws w h m s v n

-- The object table with its colours seen through a view.
use Rattle.std.proofs.Common.{◌≡◌, ℕ, Bool, true, false, cond, ltb, not, List, [], ◌∷◌, map, take, length, get_or, Option, Some, None, sym, refl, ap, ◌∙◌, inl, inr, arith, ◌+◌}
use Rattle.std.proofs.lemmas.List.{get_or-map, get_or_past, length-map, map-set, take-map}
use Rattle.std.proofs.lemmas.Bool.{cases_lt}
use Rattle.std.specs.Option.{is_none}
use Rattle.std.specs.List.{position, position_or_len}
use Rattle.pencil.specs.declared.pencil_state.Pencil.{Pencil}
use Rattle.playback.specs.Contexts.{taken_up, if_there}
use Rattle.playback.specs.Objects.{size, free, slot_at, with_slot, put_at, put_in, room, put_answer, removed, remove_answer}
use Rattle.playback.specs.declared.objects.Object.{Object}
use Rattle.playback.specs.declared.objects.Object.TheVariants.{Pen, Brush}
use Rattle.playback.specs.declared.objects.ObjectTable.{ObjectTable}
use Rattle.calls.specs.Seeing.{seen_pencil, seen_object, seen_slot, seen_objects}

module _ (view : ℕ → ℕ) where
  none-seen : (s : Option Object) → is_none (seen_slot view s) ≡ is_none s
  none-seen None = refl
  none-seen (Some o) = refl

  get_or-seen : (xs : List (Option Object)) (i : ℕ) → get_or (map (seen_slot view) xs) i None ≡ seen_slot view (get_or xs i None)
  get_or-seen xs i = elim (cases_lt i (length xs)) [
    | inl h ↦ get_or-map (seen_slot view) xs i None None h
    | inr h ↦ get_or_past (map (seen_slot view) xs) i None (let e = length-map xs (seen_slot view) in omega arith) ∙ ap (seen_slot view) (sym (get_or_past xs i None h))
  ]

  -- the lowest empty slot is the same one
  lowest-seen : (xs : List (Option Object)) → position_or_len is_none (map (seen_slot view) xs) ≡ position_or_len is_none xs
  lowest-seen [] = refl
  lowest-seen (s ∷ xs) =
      ap (λ b. cond (not b) (1 + position_or_len is_none (map (seen_slot view) xs)) 0) (none-seen s)
      ∙ ap (λ n. cond (not (is_none s)) (1 + n) 0) (lowest-seen xs)

  position-seen : (xs : List (Option Object)) → position is_none (map (seen_slot view) xs) ≡ position is_none xs
  position-seen xs =
      ap (λ n. cond (ltb n (length (map (seen_slot view) xs))) (Some n) None) (lowest-seen xs)
      ∙ ap (λ n. cond (ltb (position_or_len is_none xs) n) (Some (position_or_len is_none xs)) None) (length-map xs (seen_slot view))

  free-seen : (t : ObjectTable) → free (seen_objects view t) ≡ free t
  free-seen t = ap (position is_none) (take-map (seen_slot view) (size t) t.slots) ∙ position-seen (take (size t) t.slots)

  slot_either : (b : Bool) (s t : Option Object) → s ≡ seen_slot view t → cond b s None ≡ seen_slot view (cond b t None)
  slot_either true s t e = e
  slot_either false s t e = refl

  pub slot_seen : (t : ObjectTable) (i : ℕ) → slot_at (seen_objects view t) i ≡ seen_slot view (slot_at t i)
  slot_seen t i = slot_either (ltb i (size t)) _ (get_or t.slots i None) (get_or-seen t.slots i)

  with_seen : (i : ℕ) (s : Option Object) (t : ObjectTable) → with_slot i (seen_slot view s) (seen_objects view t) ≡ seen_objects view (with_slot i s t)
  with_seen i s t = λ j. record { slots = sym (map-set (seen_slot view) t.slots i s) j; count = t.count }

  put_slot : (f : Option ℕ) (o : Object) (t : ObjectTable) → put_at f (seen_object view o) (seen_objects view t) ≡ seen_objects view (put_at f o t)
  put_slot None o t = refl
  put_slot (Some i) o t = with_seen i (Some o) t

  pub put_seen : (o : Object) (t : ObjectTable) → put_in (seen_object view o) (seen_objects view t) ≡ seen_objects view (put_in o t)
  put_seen o t = ap (λ f. put_at f (seen_object view o) (seen_objects view t)) (free-seen t) ∙ put_slot (free t) o t

  pub put_answer-seen : (t : ObjectTable) → put_answer (seen_objects view t) ≡ put_answer t
  put_answer-seen t = ap room (free-seen t)

  removed_slot : (s : Option Object) (i : ℕ) (t : ObjectTable) → removed (seen_slot view s) i (seen_objects view t) ≡ seen_objects view (removed s i t)
  removed_slot None i t = refl
  removed_slot (Some o) i t = with_seen i None t

  pub removed_seen : (i : ℕ) (t : ObjectTable) → removed (slot_at (seen_objects view t) i) i (seen_objects view t) ≡ seen_objects view (removed (slot_at t i) i t)
  removed_seen i t = ap (λ s. removed s i (seen_objects view t)) (slot_seen t i) ∙ removed_slot (slot_at t i) i t

  remove_slot : (s : Option Object) → remove_answer (seen_slot view s) ≡ remove_answer s
  remove_slot None = refl
  remove_slot (Some o) = refl

  pub remove_answer-seen : (i : ℕ) (t : ObjectTable) → remove_answer (slot_at (seen_objects view t) i) ≡ remove_answer (slot_at t i)
  remove_answer-seen i t = ap remove_answer (slot_seen t i) ∙ remove_slot (slot_at t i)

  taken_slot : (s : Option Object) (p : Pencil) → taken_up (seen_slot view s) (seen_pencil view p) ≡ seen_pencil view (taken_up s p)
  taken_slot None p = refl
  taken_slot (Some (Pen n)) p = refl
  taken_slot (Some (Brush b)) p = refl

  pub taken-seen : (i : ℕ) (t : ObjectTable) (p : Pencil) → taken_up (slot_at (seen_objects view t) i) (seen_pencil view p) ≡ seen_pencil view (taken_up (slot_at t i) p)
  taken-seen i t p = ap (λ s. taken_up s (seen_pencil view p)) (slot_seen t i) ∙ taken_slot (slot_at t i) p

  there_slot : (s : Option Object) → if_there (seen_slot view s) ≡ if_there s
  there_slot None = refl
  there_slot (Some o) = refl

  pub there-seen : (i : ℕ) (t : ObjectTable) → if_there (slot_at (seen_objects view t) i) ≡ if_there (slot_at t i)
  there-seen i t = ap if_there (slot_seen t i) ∙ there_slot (slot_at t i)

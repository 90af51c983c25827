-- The published line modes, by their numbers from 1 to 16.
use Rattle.std.specs.Prelude.{ℕ}
use Rattle.codes.specs.declared.mode.LineMode.{LineMode}
use Rattle.codes.specs.declared.mode.LineMode.TheVariants.{Black, NotMergePen, MaskNotPen, NotCopyPen, MaskPenNot, Not, XorPen, NotMaskPen, MaskPen, NotXorPen, Nop, MergeNotPen, CopyPen, MergePenNot, MergePen, White}

abbrev pub mode_number : LineMode → ℕ
mode_number Black = 1
mode_number NotMergePen = 2
mode_number MaskNotPen = 3
mode_number NotCopyPen = 4
mode_number MaskPenNot = 5
mode_number Not = 6
mode_number XorPen = 7
mode_number NotMaskPen = 8
mode_number MaskPen = 9
mode_number NotXorPen = 10
mode_number Nop = 11
mode_number MergeNotPen = 12
mode_number CopyPen = 13
mode_number MergePenNot = 14
mode_number MergePen = 15
mode_number White = 16

-- The numbers of the causes of refusal, and their words.
use Rattle.std.specs.Prelude.{ℕ, List, codes}
use Rattle.codes.specs.declared.refusal.Refusal.{Refusal}
use Rattle.codes.specs.declared.refusal.Refusal.TheVariants.{Size, Memory, FileLength, Header, Frame, RecordSize, Colour, Operation, Value, TableFull, NoObject, Range, Buffer, Row}

abbrev pub numbered : Refusal → ℕ
numbered Size = 1
numbered Memory = 2
numbered FileLength = 3
numbered Header = 4
numbered Frame = 5
numbered RecordSize = 6
numbered Colour = 7
numbered Operation = 8
numbered Value = 9
numbered TableFull = 10
numbered NoObject = 11
numbered Range = 12
numbered Buffer = 13
numbered Row = 14

abbrev pub told : Refusal → List ℕ
told Size = codes "width or height outside 1 to 4096"
told Memory = codes "memory shorter than the picture"
told FileLength = codes "file shorter than 18 bytes or longer than 65536"
told Header = codes "header field out of range"
told Frame = codes "no record lies here before the stated end"
told RecordSize = codes "size not that of the function"
told Colour = codes "upper half of a colour is not 0x0100"
told Operation = codes "top byte of a raster operation is not 0, or a paint depends on the source"
told Value = codes "mode, style, hatch, pen width or size out of range"
told TableFull = codes "no empty slot in the object table"
told NoObject = codes "no object at the index"
told Range = codes "coordinate, width or height out of range"
told Buffer = codes "output buffer too short"
told Row = codes "picture without cells, or row outside it"

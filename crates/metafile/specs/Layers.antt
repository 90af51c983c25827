-- The layers of a refusal in words.
use Rattle.std.specs.Prelude.{ℕ, List, codes}
use Rattle.metafile.specs.declared.fault.Layer.{Layer}
use Rattle.metafile.specs.declared.fault.Layer.TheVariants.{File, Record}

abbrev pub layer_word : Layer → List ℕ
layer_word File = codes "file"
layer_word Record = codes "record"

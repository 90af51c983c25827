use Rattle.metafile.proofs.Outcomes.{outcome}
use Rattle.metafile.proofs.Seen.{one_record, one_cause, not_both}
use Rattle.metafile.proofs.decoding.decoding_is_exact.Goals as goal

pub returns : goal.returns
returns c = record { some = outcome; one_record = one_record; one_cause = one_cause; not_both = not_both }

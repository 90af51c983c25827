use Rattle.std.proofs.Common.{refl, inl, inr}
use Rattle.metafile.proofs.record_type.RecordType.name.Goals as goal

pub returns-in-SetWindowOrg : goal.returns-in-SetWindowOrg
returns-in-SetWindowOrg c = rw c.in-SetWindowOrg.is (inr (inl (refl, refl)))

pub returns-in-LineTo : goal.returns-in-LineTo
returns-in-LineTo c = rw c.in-LineTo.is (inr (inr (inr (inr (inl (refl, refl))))))

pub returns-in-IntersectClipRect : goal.returns-in-IntersectClipRect
returns-in-IntersectClipRect c = rw c.in-IntersectClipRect.is (inr (inr (inr (inr (inr (inr (inr (inl (refl, refl)))))))))

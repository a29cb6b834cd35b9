use Rattle.std.proofs.Common.{◌≡◌, ◌+◌, ◌++◌, Result, Ok, Err, OnOk, List, ℕ, length, ◌∙◌, ap, append-nil, arith}
use Rattle.std.proofs.lemmas.List.{take_all, drop_all}
use Rattle.q4_disk.specs.Images.{on, written}
use Rattle.q4_store.proofs.Idle.{Shut, shut_idle, idle_start}
use Rattle.q4_store.proofs.parts.extend_by.Goals as goal

pub returns-then-is_empty-clause-any_moment : goal.returns-then-is_empty-clause-any_moment
returns-then-is_empty-clause-any_moment g c columns h shut = (idle_start columns c.args.side _ (Shut c.args.side) h (g.met.D.Disk.only_now c.args.disk.now h) shut (shut_idle c.args.side)).only

-- a write at the end
pub at_end : (old more : List ℕ) (at : ℕ) → at ≡ length old → written old at more ≡ old ++ more
at_end old more at is =
    (λ i. take_all at old (omega (arith, is)) i ++ (more ++ drop_all (at + length more) old (omega (arith, is)) i)) ∙ ap (λ (l : List ℕ). old ++ l) (append-nil more)

on_ok : {T E P Q : Type 0} (result : Result T E) → (P → Q) → OnOk result P → OnOk result Q
on_ok (Ok x) f p = f p
on_ok (Err e) f p = tt

pub returns-clause-bytes : goal.returns-clause-bytes
returns-clause-bytes g c = on_ok c.extend.result (λ is h. is h ∙ at_end (on c.args.side (g.D.Disk.told c.args.disk.now).bytes) c.args.more.now c.args.at (c.requires.place h)) c.extend.ensures.bytes

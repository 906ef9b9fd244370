-- `desk_files::host_frames` meets its contract: from what its calls promise.
use Rattle.desk_files.specs.Files.{host_frames}
use borrow.Author.Tests.{eq-eqb, ne_eqb}
use mathlib.Core.Path.{sym, ◌∙◌}
use Rattle.desk_files.proofs.host_frames.Goals as goal

pub returns-then-place-eq0 : goal.returns-then-place-eq0
unfolding host_frames
returns-then-place-eq0 c =
    rw (eq-eqb _ _ c.if-place-eq0.true)

pub returns-in-Ok : goal.returns-in-Ok
unfolding host_frames
returns-in-Ok c =
    rw (ne_eqb _ _ c.if-place-eq0.false, sym c.read_frames.ensures ∙ c.in-Ok.is)

pub returns-in-Err : goal.returns-in-Err
unfolding host_frames
returns-in-Err c =
    rw (ne_eqb _ _ c.if-place-eq0.false, sym c.read_frames.ensures ∙ c.in-Err.is)

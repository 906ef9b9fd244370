-- `desk_files::host_frame` meets its contract: from what its calls promise.
use Rattle.desk_files.specs.Files.{host_frame}
use borrow.Author.Tests.{lt-ltb, le-ltb}
use Rattle.desk_files.proofs.host_frame.Goals as goal

pub returns-then-frame-lt11 : goal.returns-then-frame-lt11
unfolding host_frame
returns-then-frame-lt11 c =
    rw (lt-ltb _ _ c.if-frame-lt11.true)

pub returns : goal.returns
unfolding host_frame
returns c =
    rw (le-ltb _ _ c.if-frame-lt11.false, c.put_frame.ensures, c.frame_at-f.ensures)

-- `frame_words::put_frame` meets its contract: from what its calls promise.
use Rattle.frame_words.specs.FrameWords.{frame_put}
use mathlib.Core.Path.{◌∙◌}
use lib.ListN.{length-set}
use native.Mathlib.Omega.{arith}
use Rattle.frame_words.proofs.put_frame.Goals as goal

pub bounds-words-1 : goal.bounds-words-1
bounds-words-1 c =
    simp length-set (omega (arith, c.requires))

pub bounds-words-2 : goal.bounds-words-2
bounds-words-2 c =
    simp length-set (omega (arith, c.requires))

pub put_features-requires : goal.put_features-requires
put_features-requires c =
    simp length-set c.requires

pub put_starts-requires : goal.put_starts-requires
put_starts-requires c =
    rw c.put_features.auto.words (simp length-set c.requires)

pub shape_of-words : goal.shape_of-words
shape_of-words c =
    c.put_starts.auto.words ∙ (c.put_features.auto.words ∙ simp length-set)

pub returns : goal.returns
unfolding frame_put
returns c =
    rw (c.put_starts.ensures, c.put_features.ensures)

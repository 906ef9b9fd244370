-- `replay_preparation::fits` meets its contract: from what its calls promise.
use mathlib.Core.Path.{sym}
use mathlib.Core.Bool.{true≢false}
use borrow.Author.Tests.{leb-true}
use lib.Ieee.{in_float}
use lib.Dec.{le→leb}
use Prim.Native.Nat.{◌*◌, ◌^◌}
use native.Mathlib.Omega.{arith}
use Rattle.replay_preparation.proofs.fits.Goals as goal

pub returns-then-n-lt2 : goal.returns-then-n-lt2
returns-then-n-lt2 c =
    λ e. absurd (true≢false (sym e))

pub int_to_float-n : goal.int_to_float-n
unfolding in_float
int_to_float-n c =
    le→leb c.args.n (2 ^ 53) (omega arith)

pub returns-then-k-gt64 : goal.returns-then-k-gt64
returns-then-k-gt64 c =
    λ e. absurd (true≢false (sym e))

pub returns-then-perplexity-n : goal.returns-then-perplexity-n
returns-then-perplexity-n c =
    λ e. (
      omega (arith, c.if-n-lt2.false),
      c.if-perplexity.true,
      c.if-perplexity-n.true,
      rw (c.times.ensures.0, c.neighbours-k.ensures) at
          (leb-true (2 * c.times.result) 8100 e),
    )

pub returns-else-perplexity-n : goal.returns-else-perplexity-n
returns-else-perplexity-n c =
    λ e. absurd (true≢false (sym e))

pub returns-else-perplexity : goal.returns-else-perplexity
returns-else-perplexity c =
    λ e. absurd (true≢false (sym e))

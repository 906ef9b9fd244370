-- `elementary::logarithm::ln` meets its contract: by `ln-nan`, `ln-none`, `ln-inf`, `positive-bits`, `differs`.
use Rattle.std.proofs.Common.{ap, sym, ◌∙◌}
use denote.Floats.{passes}
use lib.Ieee.Bits.{of_bits-to_bits}
use lib.Ieee.{of_bits, div, binary64}
use Rattle.elementary.specs.Ln.{ln_of}
use Rattle.elementary.proofs.Parts.{ln-nan, ln-none, ln-inf, positive-bits}
use Rattle.elementary.proofs.Nans.{differs}
use Rattle.elementary.proofs.logarithm.ln.Goals as goal
use Rattle.elementary.proofs.logarithm.ln.Goals.{then-is_nan-via-then-is_nan, then-is_nan-via-else-is_nan+then-v}

pub returns-then-is_nan : goal.returns-then-is_nan
unfolding of_bits div
returns-then-is_nan c = elim c.then-is_nan.branch [
  | then-is_nan-via-then-is_nan w ↦ ln-nan _ (sym c.is_nan.ensures.value ∙ w.if-is_nan.true)
  | then-is_nan-via-else-is_nan+then-v w ↦ ln-none _ w.if-v.true
]

pub returns-then-v-2 : goal.returns-then-v-2
unfolding of_bits div
returns-then-v-2 c =
    ln-inf _ c.if-v-2.true

pub ln_bits-requires : goal.ln_bits-requires
unfolding of_bits div
ln_bits-requires c =
    positive-bits _ (passes _ c.well_formed.0.1) (differs _ ∙ sym c.is_nan.ensures.value ∙ c.if-is_nan.false) c.if-v.false c.if-v-2.false

pub returns : goal.returns
returns c =
    c.ln_bits.ensures ∙ ap ln_of (of_bits-to_bits binary64 _ (passes _ c.well_formed.0.1))

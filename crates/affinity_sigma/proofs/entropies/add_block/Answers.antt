-- `sigma::entropies::add_block` meets its contract: the three passes, or single terms. Assumes nothing.
use mathlib.Core.Path.{refl, sym, ◌∙◌}
use Prim.Native.Nat.{◌+◌}
use lib.ListN.{replicate}
use Rattle.laws.specs.Area.{zero64}
use Rattle.affinity_sigma.proofs.Shares.{block-added}
use Rattle.affinity_sigma.proofs.entropies.add_block.Goals as goal

pub returns-then-not-all_shares : goal.returns-then-not-all_shares
returns-then-not-all_shares c =
    c.add_singly.ensures

pub all_parts-requires : goal.all_parts-requires
all_parts-requires c =
    (c.requires.0, c.requires.1, sym c.all_shares.ensures ∙ c.if-not-all_shares.false)

pub add_terms-requires : goal.add_terms-requires
add_terms-requires c =
    c.requires

pub returns : goal.returns
returns c =
    c.add_terms.ensures ∙ block-added c.args.shares.now c.args.j c.args.c (replicate 32 zero64) (replicate 32 zero64)
    (replicate 32 zero64) _ _ _ c.requires.1 refl refl refl c.all_parts.ensures.ms_after c.all_parts.ensures.ks_after c.all_logs.ensures
    (sym c.all_shares.ensures ∙ c.if-not-all_shares.false) (λ t. c.type_inv.shares (c.args.j + t)) _

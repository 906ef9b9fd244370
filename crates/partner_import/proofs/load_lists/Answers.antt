-- `partner_import::load_lists` meets its contract: by `links-in-number`, `links-in-words`, `frames-rise`.
use Rattle.partner_import.proofs.Laws.{links-in-number, links-in-words, frames-rise}
use native.Mathlib.Omega.{arith}
use Rattle.partner_import.proofs.load_lists.Goals as goal

pub load_links-requires : goal.load_links-requires
load_links-requires c =
    let k = links-in-number _ c.requires.0 _ c.requires.1 in (omega (arith, k, c.requires.3), omega (arith, k, c.requires.2))

pub load_offsets-requires : goal.load_offsets-requires
load_offsets-requires c = (
  c.requires.0.n-most,
  c.requires.4,
  links-in-words _ c.requires.0 _ c.requires.1,
  frames-rise _ c.requires.0 _
      c.requires.1,
)

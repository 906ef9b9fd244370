-- `partner_load::load_indices` meets its contract: the loop keeps `Fetches`; by `fetches-start`, `fetches-next`, `fetches-done`.
use Rattle.partner.specs.Partner.{whole_links, link_to}
use Rattle.areas.proofs.Fetched.{Fetches}
use Rattle.partner_load.proofs.load_indices.Given as goal

abbrev pub invariant-loop-p : goal.invariant-loop-p
invariant-loop-p l = Fetches (link_to l.file) (whole_links l.file) l.initial.indices l.p l.indices

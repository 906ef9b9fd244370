-- `partner_import::set_out_words` meets its contract: from what its calls promise.
use Rattle.partner_import.proofs.set_out_words.Goals as goal

pub returns : goal.returns
unfolding lib.Ieee.to_bits lib.Ieee.of_bits
returns c = (c.copy_front.ensures, c.fill.ensures, c.fill-2.ensures, c.fill-3.ensures)

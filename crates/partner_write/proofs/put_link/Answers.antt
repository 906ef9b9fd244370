-- `partner_write::put_link` meets its contract: by `link-written`.
use Rattle.partner_write.proofs.Laws.{link-written}
use Rattle.partner_write.proofs.put_link.Goals as goal

pub returns : goal.returns
returns c =
    link-written _ _ _ _ _ _ _ _ c.requires c.put_half_word.ensures c.put_half_word-2.ensures c.put_word.ensures

-- `partner_write::write_tested` meets its contract: by `lists-bad`, `lists-none`, `lists-short`, `lists-told`.
use Rattle.laws.specs.Area.{num}
use Rattle.run_entry.specs.Entry.{is_fine}
use mathlib.Core.Path.{sym, ◌∙◌, ap}
use Rattle.partner_write.proofs.Laws.{lists-bad, lists-none, lists-short, lists-told}
use native.Mathlib.Omega.{arith}
use Rattle.partner_write.proofs.write_tested.Goals as goal

pub returns-in-Err : goal.returns-in-Err
returns-in-Err c =
    lists-bad _ _ _ _ _ _ _ c.in-Err.is

pub bounds-words-3 : goal.bounds-words-3
bounds-words-3 c =
    omega (arith, (c.requires (ap is_fine c.in_default.is)).words_long)

pub returns-then-words-ne1 : goal.returns-then-words-ne1
returns-then-words-ne1 c =
    lists-none _ _ _ _ _ _ (ap is_fine c.in_default.is) c.if-words-ne1.true

pub bounds-words-0 : goal.bounds-words-0
bounds-words-0 c =
    omega (arith, (c.requires (ap is_fine c.in_default.is)).words_long)

pub offset_bounds-offsets-n : goal.offset_bounds-offsets-n
offset_bounds-offsets-n c =
    omega (arith, ((c.requires (ap is_fine c.in_default.is)).lists c.if-words-ne1.false).offsets-long)

pub bounds-offsets-n : goal.bounds-offsets-n
bounds-offsets-n c =
    omega (arith, ((c.requires (ap is_fine c.in_default.is)).lists c.if-words-ne1.false).offsets-long)

pub overflow_cast-links : goal.overflow_cast-links
overflow_cast-links c =
    omega (arith, c.type_inv.offsets (num c.args.words.now 0))

pub overflow_mul-links : goal.overflow_mul-links
overflow_mul-links c =
    omega (arith, c.type_inv.offsets (num c.args.words.now 0))

pub returns-then-target-links : goal.returns-then-target-links
returns-then-target-links c =
    lists-short _ _ _ _ _ _ (ap is_fine c.in_default.is) c.if-words-ne1.false c.if-target-links.true

pub put_lists-requires : goal.put_lists-requires
put_lists-requires c =
    ((c.requires (ap is_fine c.in_default.is)).lists c.if-words-ne1.false, c.if-target-links.false)

pub shape_of-target : goal.shape_of-target
shape_of-target c =
    c.put_lists.auto.target

pub returns : goal.returns
returns c =
    lists-told _ _ _ _ _ _ (ap is_fine c.in_default.is) c.if-words-ne1.false c.if-target-links.false _ c.put_lists.ensures

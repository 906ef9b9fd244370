-- `partner_import::import` meets its contract: by `list-room`, `begin-room`, `let-in`, `import-refused`, `import-bad`, `import-loaded`.
use Rattle.partner_import.proofs.Laws.{list-room, begin-room}
use mathlib.Core.Path.{sym, ◌∙◌}
use borrow.Author.Tests.{eq-eqb}
use Rattle.std.proofs.lemmas.Result.{err_from_is_err_and}
use Rattle.run_record.specs.Record.{sizes_of}
use Rattle.partner_import.specs.Import.{loading}
use Rattle.partner_import.proofs.Laws.{let-in, import-refused, import-bad, import-loaded}
use Rattle.partner_import.proofs.import.Goals as goal

pub returns-in_err-import_fault : goal.returns-in_err-import_fault
returns-in_err-import_fault c =
    let p = err_from_is_err_and c.from_residual.result c.from_residual.ensures.1 in
    rw (p.1, p.2) (import-refused _ _ _ _
    (loading c.args.positions.now c.args.increments.now c.args.gains.now c.args.affinities.now
    c.args.indices.now c.args.offsets.now c.args.forces.now) c.tree_settings-t.ensures _ c.in_err-import_fault.ensures)

pub sizes_of-z-requires : goal.sizes_of-z-requires
sizes_of-z-requires c =
    (let-in _ _ _ (sym c.in_ok-import_fault.ensures)).good

pub returns-then-b-given_links : goal.returns-then-b-given_links
returns-then-b-given_links c =
    import-bad _ _ _ _ (loading c.args.positions.now c.args.increments.now c.args.gains.now
    c.args.affinities.now c.args.indices.now c.args.offsets.now c.args.forces.now)
    c.tree_settings-t.ensures (sym c.in_ok-import_fault.ensures) (rw c.sizes_of-z.ensures at c.first_bad_link-b.ensures)
    (λ q. c.if-b-given_links.true (q ∙ sym c.given_links.ensures))

pub load_lists-requires : goal.load_lists-requires
load_lists-requires c =
    let z = list-room (let-in _ _ _ (sym c.in_ok-import_fault.ensures)) c.args.s c.tree_settings-t.ensures in (
      (let-in _ _ _ (sym c.in_ok-import_fault.ensures)).good,
      eq-eqb _ _
          (sym (rw c.sizes_of-z.ensures at c.first_bad_link-b.ensures) ∙ c.if-b-given_links.false ∙ c.given_links.ensures),
      z.0,
      z.1,
      z.2,
    )

pub set_out_words-requires : goal.set_out_words-requires
set_out_words-requires c =
    rw c.sizes_of-z.ensures (begin-room (let-in _ _ _ (sym c.in_ok-import_fault.ensures)))

pub returns : goal.returns
unfolding sizes_of
returns c =
    import-loaded _ _ _ _
    (loading c.args.positions.now c.args.increments.now c.args.gains.now c.args.affinities.now
    c.args.indices.now c.args.offsets.now c.args.forces.now) c.tree_settings-t.ensures
    (sym c.in_ok-import_fault.ensures)
    (sym (rw c.sizes_of-z.ensures at c.first_bad_link-b.ensures) ∙ c.if-b-given_links.false ∙ c.given_links.ensures) c.fresh_run.ensures
    (rw c.sizes_of-z.ensures at c.set_out_words.ensures).0 (rw c.sizes_of-z.ensures at c.set_out_words.ensures).1
    (rw c.sizes_of-z.ensures at c.set_out_words.ensures).2 c.load_lists.ensures.0 c.load_lists.ensures.1 c.load_lists.ensures.2
    (rw c.sizes_of-z.ensures at c.set_out_words.ensures).3

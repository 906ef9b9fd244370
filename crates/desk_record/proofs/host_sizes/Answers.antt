-- `desk_record::host_sizes` meets its contract: by `settings-long`, `settings-fine`.
use Rattle.record_words.proofs.Laws.{settings-long}
use Rattle.desk_record.specs.Records.{host_sizes}
use Rattle.run_record.proofs.Laws.{settings-fine}
use borrow.Author.Tests.{lt-ltb, le-ltb, eq-eqb, ne_eqb}
use mathlib.Core.Path.{sym, ◌∙◌}
use Rattle.desk_record.proofs.host_sizes.Goals as goal

pub returns-then-not-settings_fine : goal.returns-then-not-settings_fine
unfolding host_sizes
returns-then-not-settings_fine c =
    rw (sym c.settings_fine.ensures ∙ c.if-not-settings_fine.true)

pub returns-then-sizes-lt7 : goal.returns-then-sizes-lt7
unfolding host_sizes
returns-then-sizes-lt7 c =
    rw ((sym c.settings_fine.ensures ∙ c.if-not-settings_fine.false), lt-ltb _ _ c.if-sizes-lt7.true)

pub settings_of-s-requires : goal.settings_of-s-requires
settings_of-s-requires c =
    settings-long _ (sym c.settings_fine.ensures ∙ c.if-not-settings_fine.false)

pub returns-then-k-ne0 : goal.returns-then-k-ne0
unfolding host_sizes
returns-then-k-ne0 c =
    rw (
      (sym c.settings_fine.ensures ∙ c.if-not-settings_fine.false),
      le-ltb _ _ c.if-sizes-lt7.false,
      ne_eqb _ _
          (rw (rw c.settings_of-s.ensures at (c.number-k.ensures ∙ c.settings_fault.ensures)) at c.if-k-ne0.true),
      (rw c.settings_of-s.ensures at (c.number-k.ensures ∙ c.settings_fault.ensures)),
    )

pub put_sizes-requires : goal.put_sizes-requires
put_sizes-requires c =
    (c.if-sizes-lt7.false, settings-fine _ (sym (c.number-k.ensures ∙ c.settings_fault.ensures) ∙ c.if-k-ne0.false))

pub returns : goal.returns
unfolding host_sizes
returns c =
    rw (
      (sym c.settings_fine.ensures ∙ c.if-not-settings_fine.false),
      le-ltb _ _ c.if-sizes-lt7.false,
      eq-eqb _ _
          (sym (rw c.settings_of-s.ensures at (c.number-k.ensures ∙ c.settings_fault.ensures)) ∙ c.if-k-ne0.false),
      c.put_sizes.ensures,
      c.settings_of-s.ensures,
    )

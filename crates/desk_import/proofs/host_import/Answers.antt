-- `desk_import::host_import` meets its contract: by `import-mute`, `import-unset`, `import-short`, `import-answered`.
use Rattle.partner_import.specs.Import.{loading}
use Rattle.desk_import.proofs.Laws.{import-mute, import-unset, import-short, import-answered}
use Rattle.desk_import.proofs.host_import.Goals as goal

pub returns-then-answer-eq0 : goal.returns-then-answer-eq0
returns-then-answer-eq0 c =
    import-mute _ _ _ _ (loading c.args.positions.now c.args.increments.now c.args.gains.now
    c.args.affinities.now c.args.indices.now c.args.offsets.now c.args.forces.now) _ _ c.if-answer-eq0.true

pub returns-then-settings-lt9 : goal.returns-then-settings-lt9
returns-then-settings-lt9 c =
    import-unset _ _ _ _ (loading c.args.positions.now c.args.increments.now c.args.gains.now
    c.args.affinities.now c.args.indices.now c.args.offsets.now c.args.forces.now) _ _
    c.if-answer-eq0.false c.if-settings-lt9.true

pub returns-then-record-lt14 : goal.returns-then-record-lt14
returns-then-record-lt14 c =
    import-short _ _ _ _ (loading c.args.positions.now c.args.increments.now c.args.gains.now
    c.args.affinities.now c.args.indices.now c.args.offsets.now c.args.forces.now) _ _ c.if-answer-eq0.false
    c.if-settings-lt9.false c.if-record-lt14.true c.settings_of-s.ensures c.short_import.ensures

pub returns : goal.returns
returns c =
    import-answered _ _ _ _
    (loading c.args.positions.now c.args.increments.now c.args.gains.now c.args.affinities.now
    c.args.indices.now c.args.offsets.now c.args.forces.now) _ _ c.if-answer-eq0.false c.if-settings-lt9.false c.if-record-lt14.false
    c.settings_of-s.ensures c.import-a.ensures c.put_record_of.ensures c.import_told.ensures c.put_told.ensures

-- What an iteration goes by, and which of its units is next. Definitions only.
use Rattle.std.specs.Prelude.{cond, ℕ, ◌*◌, ltb, leb, Float}
use Rattle.laws.specs.Domain.{early_iterations}
use Rattle.laws.specs.Area.{bits, one64}
use Rattle.run_record.specs.declared.Run.{Run}
use Rattle.run_record.specs.Record.{is_tree}
use Rattle.run_plan.specs.declared.Group.{Group}
use Rattle.run_plan.specs.declared.Group.TheVariants.{Tree, Forces, Finish}

-- ---- what an iteration goes by: 12 and 0.5 in the first 250, then 1 and 0.8

unfoldable pub exaggeration_of : Run → Float
exaggeration_of r = cond (ltb r.done early_iterations) (bits 0x4028000000000000) one64

unfoldable pub momentum_of : Run → Float
momentum_of r = cond (ltb r.done early_iterations) (bits 0x3fe0000000000000) (bits 0x3fe999999999999a)

-- ---- which unit is next: 0 of the tree, 1 of the forces, 2 the finish

abbrev pub group_number : Group → ℕ
group_number Tree = 0
group_number Forces = 1
group_number Finish = 2

unfoldable pub group_of : Run → ℕ
group_of r =
    cond (is_tree r.settings.method)
    (cond (leb r.phase r.settings.n) 0 (cond (leb r.phase (2 * r.settings.n)) 1 2))
    (cond (ltb r.phase (2 * r.settings.n)) 1 2)

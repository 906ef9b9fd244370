-- `run_units::one_unit` meets its contract: by `over-told`, `tree-told`, `force-told`, `finish-told`.
use mathlib.Core.Path.{refl, sym}
use native.Mathlib.Omega.{arith}
use borrow.Author.Tests.{eq-eqb, ne_eqb}
use Rattle.run_units.proofs.Lends.{over-told, tree-asks, tree-told, force-asks, force-told, finish-asks, finish-told}
use Rattle.run_units.proofs.one_unit.Goals as goal

pub returns-then-is_over : goal.returns-then-is_over
returns-then-is_over c =
    over-told c.args.r c.args.positions.now c.args.increments.now c.args.gains.now c.args.affinities.now c.args.indices.now c.args.offsets.now c.args.forces.now c.args.cells.now
    c.requires _ c.is_over.ensures c.if-is_over.true _ refl

pub tree_unit-requires : goal.tree_unit-requires
tree_unit-requires c =
    tree-asks c.args.r c.args.positions.now c.args.increments.now c.args.gains.now c.args.affinities.now c.args.indices.now c.args.offsets.now c.args.forces.now c.args.cells.now
    c.requires _ c.is_over.ensures c.if-is_over.false
    _ (sym (eq-eqb _ 0 (sym c.in-Tree.ensures))) refl

pub returns-in-Tree : goal.returns-in-Tree
returns-in-Tree c =
    tree-told c.args.r c.args.positions.now c.args.increments.now c.args.gains.now c.args.affinities.now c.args.indices.now c.args.offsets.now c.args.forces.now c.args.cells.now
    c.requires _ c.is_over.ensures c.if-is_over.false
    _ (sym (eq-eqb _ 0 (sym c.in-Tree.ensures))) refl c.tree_unit.result c.tree_unit.new.cells c.tree_unit.ensures

pub force_unit-requires : goal.force_unit-requires
force_unit-requires c =
    force-asks c.args.r c.args.positions.now c.args.increments.now c.args.gains.now c.args.affinities.now c.args.indices.now c.args.offsets.now c.args.forces.now c.args.cells.now
    c.requires _ c.is_over.ensures c.if-is_over.false
    _ (sym (ne_eqb _ 0 (λ e. omega (arith, e, c.in-Forces.ensures)))) refl _ (sym (eq-eqb _ 1 (sym c.in-Forces.ensures))) refl

pub returns-in-Forces : goal.returns-in-Forces
returns-in-Forces c =
    force-told c.args.r c.args.positions.now c.args.increments.now c.args.gains.now c.args.affinities.now c.args.indices.now c.args.offsets.now c.args.forces.now c.args.cells.now
    c.requires _ c.is_over.ensures c.if-is_over.false
    _ (sym (ne_eqb _ 0 (λ e. omega (arith, e, c.in-Forces.ensures)))) refl _ (sym (eq-eqb _ 1 (sym c.in-Forces.ensures))) refl
    _ _ c.force_unit.ensures _ refl

pub finish_unit-requires : goal.finish_unit-requires
finish_unit-requires c =
    finish-asks c.args.r c.args.positions.now c.args.increments.now c.args.gains.now c.args.affinities.now c.args.indices.now c.args.offsets.now c.args.forces.now c.args.cells.now
    c.requires _ c.is_over.ensures c.if-is_over.false
    _ (sym (ne_eqb _ 0 (λ e. omega (arith, e, c.in-Finish.ensures)))) refl _ (sym (ne_eqb _ 1 (λ e. omega (arith, e, c.in-Finish.ensures)))) refl

pub returns-in-Finish : goal.returns-in-Finish
returns-in-Finish c =
    finish-told c.args.r c.args.positions.now c.args.increments.now c.args.gains.now c.args.affinities.now c.args.indices.now c.args.offsets.now c.args.forces.now c.args.cells.now
    c.requires _ c.is_over.ensures c.if-is_over.false
    _ (sym (ne_eqb _ 0 (λ e. omega (arith, e, c.in-Finish.ensures)))) refl _ (sym (ne_eqb _ 1 (λ e. omega (arith, e, c.in-Finish.ensures)))) refl
    c.finish_unit.result _ _ _ c.finish_unit.ensures

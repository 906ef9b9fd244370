-- `blind::blind` meets its contract: by `squares-known`, `sight-pass`, `sight-room`, `sight-refused`, `sight-seen`.
use mathlib.Core.Path.{refl, sym, ◌∙◌}
use Rattle.affinity_near.proofs.Apart.{squares-known}
use Rattle.std.proofs.lemmas.Result.{err_from_is_err_and}
use Rattle.refusal.proofs.Numbers.{refusal-some}
use Rattle.blind.specs.Blind.{sight_rows}
use Rattle.blind.proofs.Tests.{sight-pass, sight-room}
use Rattle.blind.proofs.Laws.{sight-refused, sight-seen}
use Rattle.blind.proofs.blind.Goals as goal

pub returns-in_err-blind_fault : goal.returns-in_err-blind_fault
returns-in_err-blind_fault c =
    let p = err_from_is_err_and c.from_residual.result c.from_residual.ensures.1 in
    rw (p.1, p.2) (sight-refused _ _ (sight_rows c.args.squares.now c.args.row_values.now c.args.row_shares.now
    c.args.row_indices.now) c.in_err-blind_fault.ensures (refusal-some c.in_err-blind_fault.field-0.0))

pub square_frames-requires : goal.square_frames-requires
square_frames-requires c =
    let p = (sight-room _ _ _ _ _ _ (sight-pass _ _ _ _ _ _ (sym c.in_ok-blind_fault.ensures))) in
    (p.table-in, p.squares-in)

pub look_at_all-seen-requires : goal.look_at_all-seen-requires
look_at_all-seen-requires c =
    let p = (sight-room _ _ _ _ _ _ (sight-pass _ _ _ _ _ _ (sym c.in_ok-blind_fault.ensures))) in
    record {
      squared = rw c.square_frames.ensures
          (squares-known c.args.table.now c.args.s.n c.args.s.f c.args.squares.now p.squares-in);
      sight_room = rw
          c.square_frames.auto.squares p;
    }

pub clear_rows-requires : goal.clear_rows-requires
clear_rows-requires c =
    let p = (sight-room _ _ _ _ _ _ (sight-pass _ _ _ _ _ _ (sym c.in_ok-blind_fault.ensures))) in (
      rw c.square_frames.auto.squares p.squares-in,
      rw c.look_at_all-seen.auto.row_values p.values-in,
      rw c.look_at_all-seen.auto.row_shares
          p.shares-in,
      rw c.look_at_all-seen.auto.row_indices p.places-in,
    )

pub shape_of-squares : goal.shape_of-squares
shape_of-squares c =
    c.clear_rows.auto.squares ∙ c.square_frames.auto.squares

pub shape_of-row_values : goal.shape_of-row_values
shape_of-row_values c =
    c.clear_rows.auto.row_values ∙ c.look_at_all-seen.auto.row_values

pub shape_of-row_shares : goal.shape_of-row_shares
shape_of-row_shares c =
    c.clear_rows.auto.row_shares ∙ c.look_at_all-seen.auto.row_shares

pub shape_of-row_indices : goal.shape_of-row_indices
shape_of-row_indices c =
    c.clear_rows.auto.row_indices ∙ c.look_at_all-seen.auto.row_indices

pub returns : goal.returns
returns c =
    sight-seen _ _ (sight_rows c.args.squares.now c.args.row_values.now c.args.row_shares.now
    c.args.row_indices.now) c.in_ok-blind_fault.ensures refl c.square_frames.ensures c.look_at_all-seen.ensures.kept_past
    c.clear_rows.ensures c.look_at_all-seen.ensures.blind_value

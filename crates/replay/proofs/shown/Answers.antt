-- `replay::shown` meets its contract: each need follows from its own premises.
use Rattle.std.proofs.Common.{length, sym, refl, ap, ◌∙◌, arith, length-take-le, take_all}
use lib.Seq.{take-length}
use Rattle.replay.proofs.shown.Goals as goal

pub returns-then-name-lt64 : goal.returns-then-name-lt64
returns-then-name-lt64 c =
    record {
      prefix_len = (omega arith, ap length (sym (take-length c.args.name.now)));
      upper_bound = omega (arith, c.if-name-lt64.true);
      name_value =
          take-length _ ∙ sym (take_all 64 c.args.name.now (omega (arith, c.if-name-lt64.true)));
    }

pub returns : goal.returns
returns c =
    record { prefix_len = (omega (arith, c.if-name-lt64.false), sym (length-take-le 64 c.args.name.now (omega (arith, c.if-name-lt64.false)))); upper_bound = omega arith; name_value = refl }

-- The twelve facts: the encodings' are those of `encode`, the plans' are computed from the definitions.
use mathlib.Core.Path.{refl}
use Rattle.encode.proofs.Facts.{facts}
use Rattle.leb128.specs.Number.{groups}
use Rattle.plan_read.specs.Plan.{rows_by, plan_by}
use Rattle.plan.specs.Answers.{summary_of, chute_row_of, lookup_of}
use Rattle.twelve_facts.specs.TwelveFacts.{plan_above, TwelveFacts}

pub twelve_facts : TwelveFacts
unfolding plan_above lookup_of chute_row_of summary_of plan_by rows_by groups
twelve_facts =
    record {
      p1 = facts.p1;
      p2 = facts.p2;
      p3 = facts.p3;
      p4 = facts.p4;
      p5 = facts.p5;
      p6 = facts.p6;
      p7 = facts.p7;
      p8 = refl;
      p9 = refl;
      p10 = refl;
      p11 = refl;
      p12 = refl;
    }

-- The theorems on the one form of plans: flat plans by their rows, hall plans by their entries.
use Rattle.canonical_theorems.specs.CanonicalTheorems.{CanonicalTheorems}
use Rattle.canonical_theorems.proofs.Plans.{plan_written, equal_plans, write_back}
use Rattle.canonical_theorems.proofs.Halls.{halls_written}
use Rattle.canonical_theorems.proofs.HallAnswers.{equal_halls, equal_lists, hall_write_back}

pub canonical_theorems : CanonicalTheorems
canonical_theorems =
    record {
      plan_written = plan_written;
      equal_plans = equal_plans;
      write_back = λ s out l h e n. write_back s l h e out n;
      halls_written = λ s outer l h e. halls_written s outer l h e;
      equal_halls = equal_halls;
      equal_lists = equal_lists;
      hall_write_back = hall_write_back;
    }

-- The row of a chute in two plans as C sees it: the plan that it came from and the plan that is malformed are numbers, 0 for neither, 1 for the site plan, 2
-- for the house plan.
use Rattle.std.specs.Prelude.{ℕ, Option, Some, None}
use Rattle.plan_pair.specs.declared.Source.{Source}
use Rattle.plan_pair.specs.declared.Source.TheVariants.{Site, House}
use Rattle.plan_pair.specs.Pair.{Location}
use Rattle.c_plan.specs.declared.CRow.{CRow}

abbrev pub source_number : Option Source → ℕ
source_number None = 0
source_number (Some Site) = 1
source_number (Some House) = 2

abbrev pub exported_location : Location → CRow
exported_location l =
    record {
      start = l.start;
      length = l.length;
      place = l.place;
      source = source_number l.source;
      malformed = source_number l.malformed;
      number = l.number;
    }

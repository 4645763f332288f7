-- A model checked, as the call answers it. Definitions only.
use Rattle.std.proofs.Math.Option.{Option, none, some}
use Rattle.model.specs.Model.{Model}
use Rattle.report.specs.Report.{Report}
use Rattle.opened.specs.Said.{plain}

-- 0, or 7
abbrev pub checked : Option Model → Report
checked none = plain 7
checked (some m) = plain 0

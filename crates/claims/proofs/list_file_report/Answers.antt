-- The report's contract, with every reading that keeps the promise.
use Rattle.claims.proofs.Readings.{report_tied}
use Rattle.claims.proofs.list_file_report.Goals as goal

pub returns : goal.returns
returns c =
    let a = c.args in
    report_tied a.file.now a.out.now c.report.result _ c.report.ensures

-- The report's contract, with every reading that keeps the promise.
use Rattle.claims.proofs.Readings.{report_whole_tied}
use Rattle.claims.proofs.list_file_report_whole.Goals as goal

pub returns : goal.returns
returns c =
    let a = c.args in
    report_whole_tied a.file.now a.out.now c.report_whole.result _ c.report_whole.ensures

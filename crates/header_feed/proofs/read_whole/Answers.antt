-- `header_feed::read_whole` meets its contract: `header::read_text`'s answer, with the version and the data start.
use native.Mathlib.Omega.{arith}
use Rattle.header_prefix.specs.Answer.{version_is}
use Rattle.header.specs.Reads.{lent}
use Rattle.header_feed.proofs.Texts.{start_small, reads_given, reads_refused}
use Rattle.header_feed.proofs.read_whole.Goals as goal
use Rattle.header_feed.proofs.read_whole.Goals.{Start}

pub overflow_add-result : goal.overflow_add-result
overflow_add-result c = let a = (goal.at.overflow_add-result c).Start in record { fits = omega (arith, c.text_start.ensures, start_small (version_is a.args.version), a.well_formed.1.0.1) }

pub returns-in-Ok : goal.returns-in-Ok
returns-in-Ok c =
    let a = c.args in
    reads_given a.version a.text.now (lent a.table.now a.names.now a.shape.now) _ _ _ _ c.read_text.ensures c.in-Ok.is c.text_start.ensures

pub returns-in-Err : goal.returns-in-Err
returns-in-Err c =
    let a = c.args in
    reads_refused a.version a.text.now (lent a.table.now a.names.now a.shape.now) _ _ _ c.read_text.ensures c.in-Err.is

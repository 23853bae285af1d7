use Rattle.std.proofs.Common.{rules}
use Rattle.dimacs.proofs.Texts.{one_file}
use Rattle.text.proofs.Accepted.{accepts_files}
use Rattle.text.proofs.read.read.Goals as goal

pub returns-clause-files : goal.returns-clause-files
returns-clause-files c = search (rules, accepts_files)

pub returns-clause-one_file : goal.returns-clause-one_file
returns-clause-one_file c = one_file c.args.text.now

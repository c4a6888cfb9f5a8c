use Rattle.age_cli_args.proofs.commands.build_arg.Goals as goal

pub returns-in-Value-clause-rule : goal.returns-in-Value-clause-rule
returns-in-Value-clause-rule c = rw c.in-Value.is c.option.ensures.rule

pub returns-in-File-clause-rule : goal.returns-in-File-clause-rule
returns-in-File-clause-rule c = rw c.in-File.is c.required.ensures.rule

pub returns-in-Number-clause-rule : goal.returns-in-Number-clause-rule
returns-in-Number-clause-rule c = rw c.in-Number.is c.number.ensures.rule

pub returns-in-Flag-clause-rule : goal.returns-in-Flag-clause-rule
returns-in-Flag-clause-rule c = rw c.in-Flag.is c.flag.ensures.rule

pub returns-in-Operand-clause-rule : goal.returns-in-Operand-clause-rule
returns-in-Operand-clause-rule c = rw c.in-Operand.is c.operand.ensures.rule

pub returns-in-Word-clause-rule : goal.returns-in-Word-clause-rule
returns-in-Word-clause-rule c = rw c.in-Word.is c.word.ensures.rule

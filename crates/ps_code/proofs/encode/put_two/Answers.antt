use Rattle.ps_code.proofs.Words.{second_word}
use Rattle.ps_code.proofs.encode.put_two.Goals as goal

pub returns-clause-written : goal.returns-clause-written
returns-clause-written c =
    second_word c.args.code c.args.a c.args.b c.args.into.now c.put_one.new.into c.put_word.new.into c.put_one.ensures.written c.put_word.ensures

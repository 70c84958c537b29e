use Rattle.ps_code.proofs.Words.{third_word}
use Rattle.ps_code.proofs.encode.put_three.Goals as goal

pub returns-clause-written : goal.returns-clause-written
returns-clause-written c =
    third_word c.args.code c.args.a c.args.b c.args.c c.args.into.now c.put_two.new.into c.put_word.new.into c.put_two.ensures.written c.put_word.ensures

use Rattle.ps_code.proofs.Words.{fourth_word}
use Rattle.ps_code.proofs.encode.put_four.Goals as goal

pub returns-clause-written : goal.returns-clause-written
returns-clause-written c =
    fourth_word c.args.code c.args.a c.args.b c.args.c c.args.d c.args.into.now c.put_three.new.into c.put_word.new.into c.put_three.ensures.written c.put_word.ensures

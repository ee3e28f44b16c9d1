use Rattle.std.proofs.Common.{◌≡◌, ℕ, ◌+◌, ◌%◌, ◌≤◌, List, length, Ok, arith, rules, length-take-le}
use Rattle.counting.specs.Tally.{wrap}
use Rattle.lister.specs.System.{TookIn, through_more, has_ended}
use Rattle.lister.proofs.system.System.take_in.Goals as goal

took : (chunk : List ℕ) (read n read' : ℕ) → n ≤ length chunk → read' ≡ (read + n) % wrap → TookIn chunk read (Ok n) read'
took chunk read n read' few e =
    record {
      within = few;
      gave = λ h k. through_more 0 h _ read read' k (omega (arith, e, length-take-le n chunk few));
      nothing = λ _ _. has_ended read';
      failed = tt;
    }

pub returns-clause-took_in : goal.returns-clause-took_in
returns-clause-took_in c = took c.read.new.buf c.args.self.now.read c.in_ok-n.n _ (search rules) (omega arith)

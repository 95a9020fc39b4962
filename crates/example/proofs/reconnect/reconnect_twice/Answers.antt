-- `reconnect::reconnect_twice`: where the first reconnect is carried out so is the second, and leaves what that left, by `CodeTwice`.
use Rattle.std.specs.Prelude.{refl}
use Rattle.std.proofs.lemmas.Result.{err_from_is_err_and}
use Rattle.example.proofs.Reconnects.{second, never}
use Rattle.example.proofs.reconnect.reconnect_twice.Goals as goal

pub returns-in_err-first : goal.returns-in_err-first
returns-in_err-first c =
    let p = err_from_is_err_and c.from_residual.result c.from_residual.ensures.1 in
    rw (p.1, p.2) (record {
      first = c.reconnect.new.state;
      dropped = c.reconnect.new.dropped;
      replay = c.reconnect.new.replay;
      once = c.in_err-first.ensures;
      same = refl;
    })

pub returns-in_err-reconnect : goal.returns-in_err-reconnect
returns-in_err-reconnect c = never _ _ _ _ _ _ _ _ _ _ _ c.in_ok-first.ensures c.in_err-reconnect.ensures

pub returns : goal.returns
returns c =
    record {
      first = c.reconnect.new.state;
      dropped = c.reconnect.new.dropped;
      replay = c.reconnect.new.replay;
      once = c.in_ok-first.ensures;
      same = (second _ _ _ _ _ _ _ _ _ _ c.in_ok-first.ensures c.in_ok-reconnect.ensures).same;
    }

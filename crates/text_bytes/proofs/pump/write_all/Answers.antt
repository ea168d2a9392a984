use Rattle.std.proofs.Common.{◌≡◌, ℕ, ◌-◌, ◌++◌, List, [], length, take, drop, append_assoc, arith, refl}
use Rattle.std.proofs.lemmas.List.{take_rest, take-append-drop}
use Rattle.text_bytes.proofs.Appending.{appends_none, appends_then}
use Rattle.text_bytes.proofs.pump.write_all.Goals as goal

further : (front rest bytes : List ℕ) (n : ℕ) → front ++ rest ≡ bytes → front ++ take n rest ++ take (length rest - n) (drop n rest) ≡ bytes
further front rest bytes n e = rw (append_assoc, take_rest, take-append-drop) e

pub loop-rest-init : goal.loop-rest-init
loop-rest-init g c = record {
  count = omega arith;
  told = ([], (refl, appends_none _));
}

pub loop-rest-preserved : goal.loop-rest-preserved
loop-rest-preserved g c = record {
  count = omega (arith, c.loop-rest.invariant.count, c.in-Took.ensures.count);
  told =
      let t = c.loop-rest.invariant.told in
      (t.0 ++ take c.in-Took.count c.loop-rest.rest.now, (further t.0 c.loop-rest.rest.now c.args.bytes.now c.in-Took.count t.1.0, appends_then _ _ _ t.0 (take c.in-Took.count c.loop-rest.rest.now) t.1.1 c.in-Took.ensures.written.2));
}

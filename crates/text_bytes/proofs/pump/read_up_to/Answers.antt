use Rattle.std.proofs.Common.{◌≡◌, ℕ, ◌+◌, ◌≤◌, ◌++◌, List, [], length, take, drop, append_assoc, append-nil, refl, sym, ap, ◌∙◌, subst, arith}
use Rattle.std.proofs.lemmas.List.{take-append-le, take-append-drop, length-append, length-take, length-take-le}
use Rattle.std.specs.Prelude.{Result, Err}
use Rattle.std.specs.Global.{Vec}
use Rattle.std.proofs.lemmas.Result.{err_from_is_err_and}
use Rattle.text_bytes.specs.declared.pump.ReadFault.{ReadFault}
use Rattle.text_bytes.specs.Pump.{ReadsUpTo}
use Rattle.text_bytes.proofs.pump.read_up_to.Goals as goal

got : (text buf tail rest all : List ℕ) (n : ℕ) → n ≤ length buf → take n buf ≡ take n rest → text ++ rest ≡ all → (text ++ take n (buf ++ tail)) ++ drop n rest ≡ all
got text buf tail rest all n le same h = rw (take-append-le n buf tail le, same, append_assoc, take-append-drop) h

grown : (text buf tail : List ℕ) (n : ℕ) → n ≤ length buf → length (text ++ take n (buf ++ tail)) ≡ length text + n
grown text buf tail n le = rw (take-append-le n buf tail le, length-append, length-take-le n buf le) refl

pub loop-buf-preserved : goal.loop-buf-preserved
loop-buf-preserved g c =
    let tail = drop c.min-room.result c.loop-buf.buf in
    let r = c.in-Got.ensures.read in
    record {
      count = omega (arith, c.loop-buf.invariant.count, c.in-Got.ensures.count);
      short = rw c.in_ok-extend_from_slice-in-Got.ensures.items (omega (arith, grown c.loop-buf.text.items c.read.new.buf tail c.in-Got.count r.1, r.1, c.read.auto.buf, length-take c.min-room.result c.loop-buf.buf, c.loop-buf.text.ok.0));
      told = λ all h.
          let t = c.loop-buf.invariant.told all h in
          let w = r.2 t.rest t.left_is in
          record {
            rest = drop c.in-Got.count t.rest;
            parts = rw c.in_ok-extend_from_slice-in-Got.ensures.items (got c.loop-buf.text.items c.read.new.buf tail t.rest all c.in-Got.count r.1 w.1 t.parts);
            left_is = w.2;
          };
    }

-- nothing is left
ended : (text rest all : List ℕ) → rest ≡ [] → text ++ rest ≡ all → text ≡ all
ended text rest all none parts = sym (append-nil text) ∙ ap (λ (bs : List ℕ). text ++ bs) (sym none) ∙ parts

pub returns-in-End-clause-told : goal.returns-in-End-clause-told
returns-in-End-clause-told g c = λ all h.
    let t = c.loop-buf.invariant.told all h in
    let r = c.in-End.ensures.read t.rest t.left_is in
    let whole = ended c.loop-buf.text.items t.rest all r.0 t.parts in
    (whole, record { ended = r.1; short = subst (λ (bs : List ℕ). length bs ≤ c.args.limit) whole (omega (arith, c.loop-buf-test.true, c.len.ensures)) })

pub returns-clause-told : goal.returns-clause-told
returns-clause-told g c = λ all h.
    record {
      taken = c.loop-buf.text.items;
      read = c.loop-buf.invariant.told all h;
      long = omega (arith, c.loop-buf-test.false, c.loop-buf.invariant.short, c.len.ensures);
    }

cut : (text rest all : List ℕ) (n : ℕ) → text ++ rest ≡ all → (text ++ take n rest) ++ drop n rest ≡ all
cut text rest all n h = rw (append_assoc, take-append-drop) h

pub returns-in_err-extend_from_slice-in-Got-clause-told : goal.returns-in_err-extend_from_slice-in-Got-clause-told
returns-in_err-extend_from_slice-in-Got-clause-told g c = λ all h.
    let t = c.loop-buf.invariant.told all h in
    let w = c.in-Got.ensures.read.2 t.rest t.left_is in
    let text = c.loop-buf.text.items in
    let e = err_from_is_err_and c.from_residual.result c.from_residual.ensures.1 in
    subst (λ (r : Result (Vec ℕ) ReadFault). ReadsUpTo c.args.limit all (g.S.Source.left c.read.new.self) r) (sym (e.1 ∙ ap (λ (f : ReadFault). Err f) e.2))
    (text ++ take c.in-Got.count t.rest, record { rest = drop c.in-Got.count t.rest; parts = cut text t.rest all c.in-Got.count t.parts; left_is = w.2 })

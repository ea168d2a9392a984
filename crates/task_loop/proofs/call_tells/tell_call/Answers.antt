-- An error is the hook's, which listens then.
use Rattle.std.proofs.Common.{arith, inl, inr, refl}
use Rattle.std.specs.Prelude.{Bool, false, true, ◌≡◌}
use Rattle.task_loop.proofs.HookLemmas.{must_listen}
use Rattle.task_loop.proofs.call_tells.tell_call.Goals as goal

true_of : (b : Bool) → (b ≡ false → ⊥) → b ≡ true
true_of true never = refl
true_of false never = absurd (never refl)

pub returns-in_default : goal.returns-in_default
returns-in_default g c =
    let e = c.in_default.ensures.told in
    let hooked = c.is_hooked-hooked.ensures in
    inr (record {
      hears = true_of g.G.TaskGroupHook.listens (must_listen g.G.TaskGroupHook.listens c.is_hooked-hooked.result c.args.listeners.now c.tell_all.new.listeners hooked.hook hooked.listens e.hook.failed e.hook.hook);
      failed = e.hook.failed;
      answers = refl;
      told = e.part;
    })

pub returns : goal.returns
returns g c =
    let e = c.in-Ok.ensures.told in
    inl (record { hook_is_ok = λ err. let same = e.hook.hook_is_ok in omega (arith, err, same); answers = refl; told = e.whole })

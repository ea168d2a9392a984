-- What a label says of the ends of subtasks.
use Rattle.machine_rules.proofs.Machine.{ap, arith, Bool, Core, end_for, EndTells, EndPrimitives, Frees, handed_as, HandsOut, host_taken, op_progress_of, OpProgress, is_none, Label, None, Option, Scene, Some, Status, Subtask, sym, sync_answered, true, Writes, written_as, ℕ, ◌&&◌, ◌∙◌, ◌≡◌}

pub none_said : {X : Type 0} {A : Type 0} {o : Option X} {x : X} → o ≡ None → o ≡ Some x → A
none_said none is = absurd (grind (arith, none, is))

pub both_none : {X Y : Type 0} (o : Option X) (p : Option Y) → (is_none o && is_none p) ≡ true → (o ≡ None) × (p ≡ None)
both_none o p h = (grind arith, grind arith)

-- no entry of a host's work is taken, and no `call_sync` has an answer
abbrev pub is_other : Label → Bool
is_other k = is_none (host_taken k) && is_none (sync_answered k)

-- the label neither writes nor hands out an end of a subtask
abbrev pub is_mute : Scene → Core → Label → Bool
is_mute a t k = is_none (written_as a.ops a.base k t) && (is_none (handed_as a.ops a.main a.base k t) && is_other k)

-- What the label k of the step says of ends: those that it writes, and those that it hands out.
module _ (a : Scene) (t : Core) {k : Label} (is : a.label ≡ k) where
  pub says_by : is_other k ≡ true → ((sub : Subtask) (e : Status) → written_as a.ops a.base k t ≡ Some (end_for e sub) → Writes a t sub × EndTells a t sub e) → ((sub : Subtask) (e : Status) → handed_as a.ops a.main a.base k t ≡ Some (end_for e sub) → HandsOut a t sub e) → EndPrimitives a t
  says_by other writes hands = record {
    writes = λ sub e says. (writes sub e (ap (λ (y : Label). written_as a.ops a.base y t) (sym is) ∙ says)).0;
    hands = λ sub e out. hands sub e (ap (λ (y : Label). handed_as a.ops a.main a.base y t) (sym is) ∙ out);
    tells = λ sub e says. (writes sub e (ap (λ (y : Label). written_as a.ops a.base y t) (sym is) ∙ says)).1;
    takes = λ i at. none_said (both_none (host_taken k) (sync_answered k) other).0 (ap host_taken (sym is) ∙ at);
    answers = λ n at. none_said (both_none (host_taken k) (sync_answered k) other).1 (ap sync_answered (sym is) ∙ at);
  }

  pub hands_by : is_other k ≡ true → written_as a.ops a.base k t ≡ None → ((sub : Subtask) (e : Status) → handed_as a.ops a.main a.base k t ≡ Some (end_for e sub) → HandsOut a t sub e) → EndPrimitives a t
  hands_by other none hands = says_by other (λ sub e says. none_said none says) hands

  pub writes_by : is_other k ≡ true → handed_as a.ops a.main a.base k t ≡ None → ((sub : Subtask) (e : Status) → written_as a.ops a.base k t ≡ Some (end_for e sub) → Writes a t sub × EndTells a t sub e) → EndPrimitives a t
  writes_by other none writes = says_by other writes (λ sub e out. none_said none out)

  pub mute_primitives : is_mute a t k ≡ true → EndPrimitives a t
  mute_primitives mute =
      let p = both_none (written_as a.ops a.base k t) (handed_as a.ops a.main a.base k t) (grind arith) in
      hands_by (grind arith) p.0 (λ sub e out. none_said p.1 out)

  -- the entry of a host's work is taken
  pub takes_by : is_none (written_as a.ops a.base k t) && (is_none (handed_as a.ops a.main a.base k t) && is_none (sync_answered k)) ≡ true →
      ((i : ℕ) → host_taken k ≡ Some i → Frees a t (Subtask.Host i)) → EndPrimitives a t
  takes_by mute frees =
      let p = both_none (written_as a.ops a.base k t) (handed_as a.ops a.main a.base k t) (grind arith) in record {
        writes = λ sub e says. none_said p.0 (ap (λ (y : Label). written_as a.ops a.base y t) (sym is) ∙ says);
        hands = λ sub e out. none_said p.1 (ap (λ (y : Label). handed_as a.ops a.main a.base y t) (sym is) ∙ out);
        tells = λ sub e says. none_said p.0 (ap (λ (y : Label). written_as a.ops a.base y t) (sym is) ∙ says);
        takes = λ i at. frees i (ap host_taken (sym is) ∙ at);
        answers = λ n at. absurd (let shown = ap sync_answered (sym is) ∙ at in grind (arith, mute));
      }

  -- a `call_sync` is answered, and the op that has the answer is done
  pub answers_by : is_none (written_as a.ops a.base k t) && is_none (host_taken k) ≡ true →
      ((n : ℕ) → sync_answered k ≡ Some n → op_progress_of n t ≡ OpProgress.Fresh) →
      ((sub : Subtask) (e : Status) → handed_as a.ops a.main a.base k t ≡ Some (end_for e sub) → HandsOut a t sub e) → EndPrimitives a t
  answers_by quiet fresh hands =
      let p = both_none (written_as a.ops a.base k t) (host_taken k) quiet in record {
        writes = λ sub e says. none_said p.0 (ap (λ (y : Label). written_as a.ops a.base y t) (sym is) ∙ says);
        hands = λ sub e out. hands sub e (ap (λ (y : Label). handed_as a.ops a.main a.base y t) (sym is) ∙ out);
        tells = λ sub e says. none_said p.0 (ap (λ (y : Label). written_as a.ops a.base y t) (sym is) ∙ says);
        takes = λ i at. none_said p.1 (ap host_taken (sym is) ∙ at);
        answers = λ n at. fresh n (ap sync_answered (sym is) ∙ at);
      }

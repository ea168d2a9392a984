-- A ready member that is found is given.
use Rattle.core_primitives.specs.Changes.{MemberComesFirst}
use Rattle.core_primitives.specs.Names.{subtask_in}
use Rattle.core_primitives.specs.Preferences.{preference}
use Rattle.core_primitives.specs.StateView.{StateView, set_of}
use Rattle.core_primitives.specs.declared.names.SubtaskId.{SubtaskId}
use Rattle.machine_rules.specs.Picks.{TakesFirst}
use Rattle.machine_data.specs.Labels.{handle_given}
use Rattle.machine_data.specs.Read.{instance_of}
use Rattle.machine_data.specs.declared.statuses.Given.{Given}
use Rattle.machine_data.specs.declared.statuses.Given.TheVariants as given
use Rattle.machine_rules.specs.Picks.{taken_of_given}
use Rattle.ops_guests.specs.PickedEvents.{IsFirstPicked, MembersNamed, handle_in}
use Rattle.ops_guests.specs.declared.picked_events.PickedEvent.{PickedEvent}
use Rattle.ops_guests.specs.declared.picked_events.PickedEvent.TheVariants as picked_events
use Rattle.task_table.specs.declared.id.TableId.{TableId}
use Rattle.task_wait.specs.declared.keys.SetKey.{SetKey}
use Rattle.std.proofs.Common.{T, ap, cond, refl, subst, sym, ◌∙◌}
use Rattle.std.proofs.lemmas.List.Folds.{list_any-append}
use Rattle.std.specs.Cmp.{unsigned_tied}
use Rattle.std.specs.FinMap.Entries.{find}
use Rattle.std.specs.List.{list_any}
use Rattle.std.specs.Option.{option_map_or}
use Rattle.std.specs.Ordering.{eq_by_cmp, nat_cmp}
use Rattle.std.proofs.lemmas.Option.{same_Some}
use Rattle.std.specs.Prelude.{Bool, IfSome, List, None, Option, Some, [], false, is_some, map, true, unwrap_or, ℕ, ◌&&◌, ◌∷◌, ◌≡◌, ◌||◌}
use Rattle.machine_data.specs.Core.{Core}
use Rattle.machine_data.specs.Maps.{get, numbers}
use Rattle.machine_data.specs.Moves.{PickedMember, NothingPicked, picked_event, picked_event_after_own, picked_member, picked_task_event_of}
use Rattle.machine_data.specs.Read.{has_ready_member, is_in_set, is_ready_member, subtask_at, subtask_handle}
use Rattle.machine_data.specs.declared.records.Call.{Call}
use Rattle.machine_data.specs.declared.records.Join.TheVariants as join
use Rattle.machine_data.specs.declared.records.Subtask.{Subtask}
use Rattle.machine_data.specs.declared.records.Subtask.TheVariants as subtask
use Rattle.machine_data.specs.declared.records.Work.{Work}
use Rattle.machine_rules.proofs.StandLemmas.{is_eq_of}

or_right : (a : Bool) (b : Bool) → b ≡ true → (a || b) ≡ true
or_right true b h = refl
or_right false b h = h

or_left : (a b : Bool) → a ≡ true → (a || b) ≡ true
or_left a b h = ap (λ c. c || b) h

found_any : {X : Type 0} (p : ℕ → Bool) (n : ℕ) (es : List (ℕ × X)) → is_some (find nat_cmp n es) ≡ true → p n ≡ true → list_any p (map (λ e. e.0) es) ≡ true
found_any p n [] there h = absurd (subst T (sym there) tt)
found_any {X = X} p n (e ∷ es) there h = go (eq_by_cmp nat_cmp n e.0) refl there (λ t. found_any p n es t h)
  where
    go : (b : Bool) → eq_by_cmp nat_cmp n e.0 ≡ b → is_some (cond b (Some e.1) (find nat_cmp n es)) ≡ true → (is_some (find nat_cmp n es) ≡ true → list_any p (map (λ d. d.0) es) ≡ true) → (p e.0 || list_any p (map (λ d. d.0) es)) ≡ true
    go true k t rest = or_left (p e.0) _ (ap p (sym (is_eq_of n e.0 (sym (unsigned_tied n e.0) ∙ k))) ∙ h)
    go false k t rest = or_right (p e.0) _ (rest t)

any_mapped : (q : Subtask → Bool) (f : ℕ → Subtask) (ns : List ℕ) → list_any q (map f ns) ≡ list_any (λ n. q (f n)) ns
any_mapped q f [] = refl
any_mapped q f (n ∷ ns) = ap (λ b. q (f n) || b) (any_mapped q f ns)

joined_call : (x : ℕ) (o : Option Call) (b : Bool) → (is_in_set x (option_map_or (λ c. c.join) o join.Nowhere) && b) ≡ true → is_some o ≡ true
joined_call x None b h = absurd (subst T (sym h) tt)
joined_call x (Some c) b h = refl

joined_work : (x : ℕ) (o : Option Work) (b : Bool) → (is_in_set x (option_map_or (λ w. w.join) o join.Nowhere) && b) ≡ true → is_some o ≡ true
joined_work x None b h = absurd (subst T (sym h) tt)
joined_work x (Some w) b h = refl

ready_found : (x : ℕ) (sub : Subtask) (s : Core) → is_ready_member x sub s ≡ true → has_ready_member x s ≡ true
unfolding has_ready_member numbers get
ready_found x (subtask.Guest k) s h =
    let p = λ (sub : Subtask). is_ready_member x sub s in
    let calls = map (λ n. subtask.Guest n) (numbers s.calls) in
    let works = map (λ n. subtask.Host n) (numbers s.works) in
    let found = found_any (λ n. p (subtask.Guest n)) k s.calls.list (joined_call x (get s.calls k) _ h) h in
    list_any-append p calls works ∙ or_left _ (list_any p works) (any_mapped p (λ n. subtask.Guest n) (numbers s.calls) ∙ found)
ready_found x (subtask.Host i) s h =
    let p = λ (sub : Subtask). is_ready_member x sub s in
    let calls = map (λ n. subtask.Guest n) (numbers s.calls) in
    let works = map (λ n. subtask.Host n) (numbers s.works) in
    let found = found_any (λ n. p (subtask.Host n)) i s.works.list (joined_work x (get s.works i) _ h) h in
    list_any-append p calls works ∙ or_right (list_any p calls) _ (any_mapped p (λ n. subtask.Host n) (numbers s.works) ∙ found)

pub member_given : (b : Bool) (k x : ℕ) (sub : Subtask) (s : Core) → None ≡ picked_task_event_of b k s → is_ready_member x sub s ≡ true → picked_event b k x (Some sub) s ≡ Some (PickedMember sub)
unfolding picked_event
member_given b k x sub s none ready =
    ap (λ g. picked_event_after_own g x (Some sub) s) (sym none)
    ∙ (ap (λ c. cond c (picked_member x (Some sub) s) (Some NothingPicked)) (ready_found x sub s ready) ∙ ap (λ c. cond c (Some (PickedMember sub)) None) ready)

-- the first ready member, with the handle that names it
pub member_first : (i : ℕ) (set : TableId SetKey) (sub : SubtaskId) (s : StateView) (h : Option ℕ) → MembersNamed i (set_of s set) s.core → is_ready_member (set_of s set) (subtask_in s.tags sub) s.core ≡ true
    → MemberComesFirst set sub s → h ≡ subtask_handle (subtask_in s.tags sub) s.core → TakesFirst (preference s) s.core i (unwrap_or h 0)
member_first i set sub s h named ready first is =
    let one = named (subtask_in s.tags sub) ready in
    record {
      set = set_of s set;
      member = subtask_in s.tags sub;
      named = ap (λ k. subtask_at i k s.core) (ap (λ o. unwrap_or o 0) (is ∙ one.1.0)) ∙ one.1.1;
      ready = ready;
      first = first;
    }

-- what is handed out of the picked event shows the member that comes first
pub given_shows : (s : StateView) (i n : ℕ) (g : PickedEvent) (v : Given) → handle_given v ≡ handle_in g → IsFirstPicked i s g → i ≡ instance_of n s.core → IfSome (taken_of_given n v) (λ e. TakesFirst (preference s) s.core (instance_of e.0 s.core) e.1)
given_shows s i n g given.Nothing is first at = tt
given_shows s i n g given.Cancelled is first at = tt
given_shows s i n (picked_events.Own e) (given.Subtask status h) is first at = absurd (cc)
given_shows s i n picked_events.Nothing (given.Subtask status h) is first at = absurd (cc)
given_shows s i n (picked_events.Member sub k) (given.Subtask status h) is first at =
    subst (λ (j : ℕ). TakesFirst (preference s) s.core j h) at (subst (λ (q : ℕ). TakesFirst (preference s) s.core i q) (sym (same_Some h k is)) first)

-- what is handed out that is no member's shows none
pub none_shows : (P : ℕ × ℕ → Type 0) (n : ℕ) (v : Given) → handle_given v ≡ None → IfSome (taken_of_given n v) P
none_shows P n given.Nothing is = tt
none_shows P n given.Cancelled is = tt
none_shows P n (given.Subtask status h) is = absurd (cc)

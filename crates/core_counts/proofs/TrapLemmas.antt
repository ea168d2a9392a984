-- The store is trapped: the groups up to the last that was made are finished, which are all.
use Rattle.std.specs.Prelude.{Vec, vec_capacity, ◌++◌}
use Rattle.core_counts.proofs.EndedLemmas.{all_ended, all_known, trap_ends}
use Rattle.core_records.proofs.LaterLemmas.{state_target, beside_whole, same_made}
use Rattle.core_records.proofs.Core.{AreEnded, ap₂, Global, tracked_of, core_of, subst, [], ap, arith, bare, Bool, cond, eq-eqb, eq_by_cmp, false, filter, find, get, get-records, group_key, image, IsSoundCore, IsWhole, length, List, ltb-true, map, nat_cmp, nat_lt, None, numbers, on_core, Option, CoreImage, parts_of, records, refl, seen, set_trapped, Some, sym, table_use, true, unsigned_tied, ℕ, ◌*◌, ◌+◌, ◌-◌, ◌<◌, ◌∙◌, ◌∷◌, ◌≡◌, ◌≤◌}
use Rattle.core_records.specs.declared.{parts.CoreParts.CoreParts}
use Rattle.core_records.proofs.KeptLemmas.{groups_are, used_is}

module _ {X : Type 0} (k : ℕ) where
  tail_none : (b : Bool) (x : X) (o : Option X) → cond b (Some x) o ≡ None → o ≡ None
  tail_none true x o none = absurd (cc)
  tail_none false x o none = none

  none_over : (e : ℕ × X) (es : List (ℕ × X)) → ((n : ℕ) → k < n → find nat_cmp n (e ∷ es) ≡ None) → (b : Bool) → nat_lt k e.0 ≡ b → filter (nat_lt k) (map (λ f. f.0) es) ≡ [] → cond b (e.0 ∷ filter (nat_lt k) (map (λ f. f.0) es)) (filter (nat_lt k) (map (λ f. f.0) es)) ≡ []
  none_over e es none true is rest =
      let here : cond true (Some e.1) (find nat_cmp e.0 es) ≡ None = sym (ap (λ b. cond b (Some e.1) (find nat_cmp e.0 es)) (unsigned_tied e.0 e.0 ∙ eq-eqb e.0 e.0 refl)) ∙ none e.0 (ltb-true k e.0 is) in
      absurd (cc)
  none_over e es none false is rest = rest

  -- where the map has nothing above k, no number passes
  pub all_within : (es : List (ℕ × X)) → ((n : ℕ) → k < n → find nat_cmp n es ≡ None) → filter (nat_lt k) (map (λ f. f.0) es) ≡ []
  all_within [] none = refl
  all_within (e ∷ es) none = none_over e es none (nat_lt k e.0) refl (all_within es (λ n more. tail_none (eq_by_cmp nat_cmp n e.0) e.1 (find nat_cmp n es) (none n more)))

less_groups : (u g l m a b c d : ℕ) → u ≡ l + a + 2 * b + c + d → g ≡ l → m ≡ 0 → u - g ≡ m + a + 2 * b + c + d
less_groups u g l m a b c d used groups none = omega (arith, used, groups, none)

all_made : (n : ℕ) → n ≤ n
all_made n = omega arith

abbrev pub after_trap : CoreImage → CoreImage
after_trap p = state_target p p.made (same_made p.made) p.made.groups (record p.kept { used = p.kept.used - p.kept.groups; groups = 0 }) p.results p.capacity

module _ (p : CoreImage) (none : filter (nat_lt p.made.groups) (numbers (records group_key p.groups.places)) ≡ []) where
  pub trapped_whole : IsWhole p → IsWhole (after_trap p)
  unfolding table_use
  trapped_whole whole =
      beside_whole p p.made (same_made p.made) p.made.groups (record p.kept { used = p.kept.used - p.kept.groups; groups = 0 }) p.results p.capacity whole
      (record {
        used = less_groups _ _ _ _ _ _ _ _ whole.counted.kept.used whole.counted.kept.groups (ap length none);
        groups = sym (ap length none);
        live = whole.counted.kept.live;
      })
      whole.counted.results
      (all_made p.made.groups)
      whole.counted.few

module _ (a : CoreParts) (sound : IsSoundCore a) where
  none_left : filter (nat_lt a.made.groups) (numbers (records group_key a.groups.places)) ≡ []
  unfolding IsSoundCore get numbers
  none_left = all_within a.made.groups (records group_key a.groups.places).list (λ n more. sym (sym (get-records group_key a.groups.places n)) ∙ sound.tables.groups.later n more)

  pub groups_within : a.kept.groups ≤ a.kept.used
  unfolding table_use
  groups_within = omega (arith, groups_are a sound, used_is a sound)

  module _ (v : Vec ℕ Global) (items : v.items ≡ a.ended.items ++ trap_ends a sound) (room : vec_capacity v ≡ vec_capacity a.ended) where
    abbrev pub trapped_parts : CoreParts
    trapped_parts = record a { trapped = true; finished = a.made.groups; kept = record a.kept { used = a.kept.used - a.kept.groups; groups = 0 }; ended = v }

    pub trapped_sound : IsSoundCore trapped_parts
    unfolding IsSoundCore
    trapped_sound = record {
      tables = record { threads = sound.tables.threads; calls = sound.tables.calls; works = sound.tables.works; sets = sound.tables.sets; groups = sound.tables.groups };
      whole = trapped_whole (bare (parts_of a)) none_left sound.whole;
      interesting = sound.interesting;
      moving = sound.moving;
      handles = sound.handles;
      owned = sound.owned;
      live = sound.live;
      ended = subst (λ (gs : List ℕ). AreEnded v.items (vec_capacity v) gs a.made.groups) (sym none_left)
          (subst (λ (ns : List ℕ). AreEnded ns (vec_capacity v) [] a.made.groups) (sym items)
          (subst (λ (n : ℕ). AreEnded (a.ended.items ++ trap_ends a sound) n [] a.made.groups) (sym room) (all_ended a sound)));
    }

    still_known : tracked_of v.items (filter (nat_lt a.made.groups) (numbers (records group_key a.groups.places))) a.made.groups ≡ tracked_of a.ended.items (core_of (parts_of a)).groups a.made.groups
    still_known = ap₂ (λ (ns gs : List ℕ). tracked_of ns gs a.made.groups) items none_left ∙ all_known a sound

    pub trapped_seen : seen trapped_parts ≡ on_core set_trapped (seen a)
    unfolding seen set_trapped
    trapped_seen = ap₂ (λ (gs ks : List ℕ). record (image (parts_of a)) { core = record (image (parts_of a)).core { trapped = true; groups = gs }; tags = record (image (parts_of a)).tags { tracked = ks } }) none_left still_known

-- What a call of a host's closure at a store gives.
use Rattle.std.specs.Borrow.{MutBor}
use Rattle.std.specs.Fn.{Once}
use Rattle.std.specs.Prelude.{◌≡◌}
use Rattle.task_store.specs.declared.access.Access.{Access}
use Rattle.task_store.specs.declared.store.Store.{Store}

module _ {F A B R : Type 0} (g : Once F (MutBor A × (MutBor B × Unit {0})) (R × (MutBor A × (MutBor B × Unit {0})))) where
  -- f may be called at `&mut`s to x and y
  abbrev pub TakesTwo : F → A → B → Type 0
  TakesTwo f x y = (p : MutBor A) (q : MutBor B) → p.now ≡ x → q.now ≡ y → g.pre f (p, (q, tt))

  -- such a call may give r, and leave z at the first
  pub record CalledAtTwo (f : F) (x : A) (y : B) (r : R) (z : A) : Type 0 where
    pub first : MutBor A
    pub second : MutBor B
    pub shows : (first.now ≡ x) × (second.now ≡ y)
    pub left : MutBor A × (MutBor B × Unit {0})
    pub called : g.post f (first, (second, tt)) (r, left)
    pub leaves : left.0.now ≡ z

module _ {T P H G F R : Type 0} (g : Once F (MutBor (Access T P H G) × Unit {0}) (R × (MutBor (Access T P H G) × Unit {0}))) where
  -- f may be called at a `&mut` to access to s
  abbrev pub TakesAccess : F → Store T H G → Type 0
  TakesAccess f s = (p : MutBor (Access T P H G)) → p.now.store.now ≡ s → g.pre f (p, tt)

  -- such a call may give r, and leave t in the store, if the access that is left is still to it
  pub record CalledAtAccess (f : F) (s : Store T H G) (r : R) (t : Store T H G) : Type 0 where
    pub shown : MutBor (Access T P H G)
    pub shows : shown.now.store.now ≡ s
    pub left : MutBor (Access T P H G)
    pub called : g.post f (shown, tt) (r, (left, tt))
    pub leaves : shown.now.store.ghost_name ≡ left.now.store.ghost_name → t ≡ left.now.store.now

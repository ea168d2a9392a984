-- What is counted beside the tables where one more is pushed or one is deleted: all else of the core is as before.
use Rattle.std.specs.Prelude.{◌≡◌, ◌+◌, ◌-◌}
use Rattle.core_records.specs.declared.parts.CoreParts.{CoreParts}

abbrev pub IsGroupMore : (old new : CoreParts) → Type 0
IsGroupMore a b = b ≡ record a {
  groups = b.groups;
  made = record a.made { groups = a.made.groups + 1 };
  kept = record a.kept { used = a.kept.used + 1; groups = a.kept.groups + 1 };
}

abbrev pub IsGroupLess : (old new : CoreParts) → Type 0
IsGroupLess a b = b ≡ record a {
  groups = b.groups;
  made = record a.made { groups = a.made.groups - 1 };
  kept = record a.kept { used = a.kept.used - 1; groups = a.kept.groups - 1 };
}

abbrev pub IsSetMore : (old new : CoreParts) → Type 0
IsSetMore a b = b ≡ record a {
  sets = b.sets;
  made = record a.made { sets = a.made.sets + 1 };
  kept = record a.kept { used = a.kept.used + 1 };
}

abbrev pub IsSetLess : (old new : CoreParts) → Type 0
IsSetLess a b = b ≡ record a {
  sets = b.sets;
  made = record a.made { sets = a.made.sets - 1 };
  kept = record a.kept { used = a.kept.used - 1 };
}

-- a thread of a call that has others, with its own set
abbrev pub IsMemberLess : (old new : CoreParts) → Type 0
IsMemberLess a b = b ≡ record a {
  threads = b.threads;
  calls = b.calls;
  made = record a.made { threads = a.made.threads - 1 };
  kept = record a.kept { used = a.kept.used - 2 };
}

-- a call, its first thread and that thread's own set
abbrev pub IsCallWithThreadLess : (old new : CoreParts) → Type 0
IsCallWithThreadLess a b = b ≡ record a {
  threads = b.threads;
  calls = b.calls;
  groups = b.groups;
  made = record a.made { threads = a.made.threads - 1 };
  kept = record a.kept { used = a.kept.used - 3; interesting = a.kept.interesting - 1 };
}

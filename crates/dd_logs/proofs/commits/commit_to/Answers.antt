use Rattle.std.proofs.Common.{refl, rules}
use Rattle.dd_logs.proofs.Fitting.{five_fit}
use Rattle.dd_logs.proofs.commits.commit_to.Goals as goal

pub commit-requires-clause-given : goal.commit-requires-clause-given
commit-requires-clause-given g c = record {
  few = search rules;
  records = search rules;
  rows = search rules;
  fit = five_fit _ _ _ _ _ refl refl refl refl refl refl refl;
  counted = search rules;
}

pub commit-requires-in-Second-clause-given : goal.commit-requires-in-Second-clause-given
commit-requires-in-Second-clause-given g c = record {
  few = search rules;
  records = search rules;
  rows = search rules;
  fit = five_fit _ _ _ _ _ refl refl refl refl refl refl refl;
  counted = search rules;
}

pub commit-requires-in-All-clause-given : goal.commit-requires-in-All-clause-given
commit-requires-in-All-clause-given g c = record {
  few = search rules;
  records = search rules;
  rows = search rules;
  fit = five_fit _ _ _ _ _ refl refl refl refl refl refl refl;
  counted = search rules;
}

pub commit-requires-in-One-clause-given : goal.commit-requires-in-One-clause-given
commit-requires-in-One-clause-given g c = record {
  few = search rules;
  records = search rules;
  rows = search rules;
  fit = five_fit _ _ _ _ _ refl refl refl refl refl refl refl;
  counted = search rules;
}

pub commit-requires-in-Three-clause-given : goal.commit-requires-in-Three-clause-given
commit-requires-in-Three-clause-given g c = record {
  few = search rules;
  records = search rules;
  rows = search rules;
  fit = five_fit _ _ _ _ _ refl refl refl refl refl refl refl;
  counted = search rules;
}

pub commit-requires-in-Eight-clause-given : goal.commit-requires-in-Eight-clause-given
commit-requires-in-Eight-clause-given g c = record {
  few = search rules;
  records = search rules;
  rows = search rules;
  fit = five_fit _ _ _ _ _ refl refl refl refl refl refl refl;
  counted = search rules;
}

pub commit-requires-in-Zero-clause-given : goal.commit-requires-in-Zero-clause-given
commit-requires-in-Zero-clause-given g c = record {
  few = search rules;
  records = search rules;
  rows = search rules;
  fit = five_fit _ _ _ _ _ refl refl refl refl refl refl refl;
  counted = search rules;
}

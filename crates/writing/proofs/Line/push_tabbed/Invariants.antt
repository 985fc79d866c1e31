use Rattle.std.proofs.Common.{◌≡◌, ◌++◌, ◌*◌, ◌≤◌, length, take}
use Rattle.writing.specs.TableText.{tabbed}
use Rattle.writing.proofs.Line.push_tabbed.Given as goal

abbrev pub invariant-loop-value : goal.invariant-loop-value
invariant-loop-value g l = record {
  added : l.self ≡ l.initial.self ++ tabbed (take l.value-index l.values);
  short : length (tabbed (take l.value-index l.values)) ≤ 11 * l.value-index;
}

-- A touch as it is read, without where it lies in memory.
use Rattle.tuple_text.specs.Refs.{set_value, user_value}
use Rattle.tuple_text.specs.Tuples.{tuple_of}
use Rattle.version_chains.specs.Commits.{Touch}
use Rattle.version_chains.specs.declared.touch.TouchRef.{TouchRef}

abbrev pub touch_value : TouchRef → Touch
touch_value t = record { at = t.at; live = t.live; tuple = tuple_of (set_value t.set) (user_value t.user.user) }

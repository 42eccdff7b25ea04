-- What a link in memory tells, and which of its calls fail.
use Rattle.std.specs.Prelude.{ℕ, Bool, not, ◌||◌, List, Option, Some, drop}
use Rattle.sds_outside.specs.Causes.{next_number, is_listed}
use Rattle.sds_outside.specs.Exchanges.{Exchange, has_reply}
use Rattle.sds_outside.specs.declared.mem_link.MemLink.{MemLink}

-- the replies that are left
abbrev pub link_replies : MemLink → Option (List (List ℕ))
link_replies l = Some (drop l.at l.replies)

-- the exchanges made
abbrev pub link_exchanges : MemLink → Option (List Exchange)
link_exchanges l = Some (l.made.items)

-- how often the link failed
abbrev pub link_faults : MemLink → ℕ
link_faults l = l.faults

-- the numbers of the link's calls that fail
abbrev pub link_fails : MemLink → List ℕ
link_fails l = l.calls.fails

-- how many calls of the link were made
abbrev pub link_calls : MemLink → ℕ
link_calls l = l.calls.made

-- whether the next call fails: it is listed, or no reply that fits is prepared
abbrev pub exchange_fails : MemLink → Bool
exchange_fails l = is_listed (link_fails l) (next_number (link_calls l)) || not (has_reply (drop l.at l.replies))

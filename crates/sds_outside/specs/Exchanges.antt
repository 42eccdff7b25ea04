-- Requests and the replies that they got, and the replies to come.
use Rattle.std.specs.Prelude.{ℕ, Bool, false, List, [], ◌∷◌, ◌++◌, length, nat_le, Option}
use Rattle.std.specs.Option.{option_map}
pub use Rattle.sds_outside.specs.declared.linking.Exchange.{Exchange}

-- a request with the reply that it got, or none
abbrev pub exchange_of : List ℕ → Option (List ℕ) → Exchange
exchange_of request reply = record { request = request; reply = reply }

-- what is told of the exchanges, and then this one
abbrev pub told_exchange : Option (List Exchange) → Exchange → Option (List Exchange)
told_exchange told made = option_map (λ (front : List Exchange). front ++ made ∷ []) told

-- this reply, and then those that are told
abbrev pub before_reply : List ℕ → Option (List (List ℕ)) → Option (List (List ℕ))
before_reply reply told = option_map (λ (rest : List (List ℕ)). reply ∷ rest) told

-- a reply comes next, and it has at most 1,073,774,592 bytes
abbrev pub has_reply : List (List ℕ) → Bool
has_reply [] = false
has_reply (first ∷ rest) = nat_le (length first) 1073774592

-- A batch in error holds its lane: sales whose item hasn't come yet wait, and come later in order.
use Rattle.std.specs.Prelude.{ℕ, List, [], ◌∷◌, ◌++◌, codes}
use Rattle.sds_types.specs.declared.config.Config.{Config}
use Rattle.sds_screen.specs.generator.Shop.{shop, channel_def, join_def}
use Rattle.sds_examples.specs.Lines.{Prints, joined, joined_screen}

-- the shop, whose stores send items up, too, and sales one transaction a batch
abbrev pub eager_shop : Config
eager_shop = record shop {
  channels = channel_def (codes "item") 10
      ∷ (channel_def (codes "stock") 20
      ∷ (record (channel_def (codes "sale") 30) { max_batch_size = 1 } ∷ []));
  trigger_routers = join_def 0 1 ∷ shop.trigger_routers;
}

abbrev pub held : List (List ℕ)
held = joined
    ++ codes "write,s1,till,1"
    ∷ codes "insert,item,9,Cap,1.00"
    ∷ codes "insert,sale,a,001,9,1"
    ∷ codes "end"
    ∷ codes "write,s1,till,2"
    ∷ codes "insert,sale,b,001,9,2"
    ∷ codes "end"
    ∷ codes "route,s1"
    ∷ codes "send,s1,corp"
    ∷ codes "deliver,1,sale"
    ∷ codes "answer,1"
    ∷ codes "batches,corp"
    ∷ codes "push,s1,corp"
    ∷ codes "push,s1,corp"
    ∷ codes "batches,corp"
    ∷ []

abbrev pub held_screen : List (List ℕ)
held_screen = joined_screen
    ++ codes "write s1 till 1: done 1 2"
    ∷ codes "write s1 till 2: done 3 1"
    ∷ codes "route s1: 3 batches"
    ∷ codes "send 1 s1 corp: 3 batches"
    ∷ codes "deliver 1: reply 1 batch-1=ok&batch-2=er.1.9"
    ∷ codes "answer 1: 2 changed"
    ∷ codes "in s1 item 1 OK"
    ∷ codes "in s1 sale 0 - held 2 1 9"
    ∷ codes "send 2 s1 corp: 1 batches"
    ∷ codes "deliver 2: reply 2 batch-2=ok"
    ∷ codes "answer 2: 1 changed"
    ∷ codes "send 3 s1 corp: 1 batches"
    ∷ codes "deliver 3: reply 3 batch-3=ok"
    ∷ codes "answer 3: 1 changed"
    ∷ codes "in s1 item 1 OK"
    ∷ codes "in s1 sale 3 OK"
    ∷ []

abbrev pub ErrorsHoldLanes : Type 0
ErrorsHoldLanes = Prints eager_shop held held_screen

-- That words are the same, and numbers theirs, are propositions: so a world may keep the fact.
use Rattle.std.specs.Prelude.{ℕ, List}
use Rattle.std.specs.Coded.{Coded-set}
use Rattle.std.proofs.Props.{props}
use Rattle.asking.specs.Asked.{Word, Word-set}
use Rattle.path_tree.specs.Plain.{Plain}
use Rattle.path_tree.specs.Code.{plain_code}
use Rattle.path_tree.specs.declared.path.Term.{Term}
use Rattle.questions.specs.declared.key.Key.{Key}
use Rattle.questions.specs.Contents.{Content, Content-set}
use Rattle.read_sets.specs.declared.trace.Item.{Item}
use Rattle.run_world.specs.Noted.{AreNumbered, AreWords}

text_set : IsSet (List ℕ)
text_set = hlevel props

plain_set : IsSet Plain
plain_set = Coded-set plain_code

content_set : IsSet Content
content_set = hlevel (Content-set, plain_set, text_set, props)

word_set : IsSet (Word Content)
word_set = hlevel (Word-set, content_set, text_set, props)

pub AreWords-prop : (tells told : Key → Word Content) → IsProp (AreWords tells told)
AreWords-prop tells told = hlevel (word_set, props)

term_set : IsSet Term
term_set = hlevel props

key_set : IsSet Key
key_set = hlevel (term_set, props)

pairs_set : IsSet (List (Key × ℕ))
pairs_set = hlevel (key_set, props)

pub AreNumbered-prop : (tells : Key → Word Content) (items : List Item)
    → IsProp (AreNumbered tells items)
AreNumbered-prop tells items = pairs_set _ _

use Rattle.xpath_laws.proofs.Order.{order_ascends, order_members, order_is}
use Rattle.xpath_laws.proofs.ordering.document_order_is_the_ascending_list_of_the_nodes.Goals as goal

pub returns-clause-ascends : goal.returns-clause-ascends
returns-clause-ascends c = λ nodes. order_ascends nodes

pub returns-clause-members : goal.returns-clause-members
returns-clause-members c = λ nodes n. order_members nodes n

pub returns-clause-one : goal.returns-clause-one
returns-clause-one c = λ nodes ordered s h. order_is nodes ordered s h

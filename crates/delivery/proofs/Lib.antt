mod PairLemmas
mod DeliveryLemmas

pub mod ServiceMoments
pub mod ServiceRides
pub mod ServiceRideLaws
pub mod CutOffs
pub mod ServiceOrders

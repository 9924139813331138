pub mod LanesWithin
pub mod AlertsWithin
pub mod InstanceWithin
pub mod HubWithin

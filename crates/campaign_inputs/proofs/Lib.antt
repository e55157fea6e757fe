pub mod Places
pub mod Taking
pub mod HeardSo
pub mod ReadSites
pub mod Beginnings
pub mod MadeSites
pub mod CampaignsSo
